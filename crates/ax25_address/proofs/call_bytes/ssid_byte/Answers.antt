-- `ax25_address::call_bytes::ssid_byte` meets its contract.
-- Assumes nothing.
use Rattle.ax25_address.proofs.CallField.{ssid_none, ssid_shifted}
use Rattle.ax25_address.proofs.call_bytes.ssid_byte.Goals as goal

pub returns-then-c-k : goal.returns-then-c-k
returns-then-c-k c = ssid_none _ _ c.requires c.if-c-k.true

pub returns : goal.returns
returns c = ssid_shifted _ _ c.requires _ c.ssid_of.ensures
