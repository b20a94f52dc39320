-- What the code goes through, for private contracts and proofs.
pub mod Kinds
pub mod Scanning
