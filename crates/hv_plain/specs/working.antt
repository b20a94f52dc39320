-- What single functions of the reader of small programs do. No promise rests on these.
pub mod SmallReader
