pub mod Book
pub mod Return
