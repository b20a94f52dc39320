-- Memory. Read Memory (blocks and their bytes), then Scalars (what bytes mean), then Access
-- (events, loads, stores, copies), then Laws. `working` is about the code's own tables.
pub mod Kinds
pub mod Memory
pub mod Scalars
pub mod Access
pub mod Laws
pub mod working
