-- Hashes and their forms.
pub mod Base64
pub mod HexDigits
pub mod HexOrder
pub mod HexText
pub mod Laws
pub mod Lemmas
