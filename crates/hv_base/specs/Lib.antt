-- What every crate speaks of. Read Ascii, then Keywords, Puncts, Why and Status, which are tables.
-- `formers` is no definition to read: it says that a type may hold lists of itself.
pub mod Ascii
pub mod Bundles
pub mod Keywords
pub mod Puncts
pub mod Status
pub mod Why
pub mod formers
