-- The types of C as definitions see them, and what the standard says of them.
pub mod Plain
pub mod Erasure
pub mod Kinds
pub mod Layouts
pub mod Offsets
pub mod Settled
pub mod Table
pub mod Compatible
pub mod Composite
pub mod Knowledge
pub mod Conversions
