pub mod MonitorLaws
