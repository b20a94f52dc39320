-- What conditions mean. Read Diagram (what a condition means, what a store keeps, the least
-- assignment), then Order (in which order a store's branches test the variables), Parts (the parts
-- of a condition) and Laws (laws of these, for proofs above). `working` is about the store's own
-- tables and steps, and no contract of another crate cites it.
pub mod Diagram
pub mod Laws
pub mod Order
pub mod Parts
pub mod working
