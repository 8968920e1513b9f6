pub mod HexText
pub mod Numbers
pub mod Teams
