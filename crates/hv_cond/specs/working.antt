-- The store's own tables and steps. Read Nodes (the table of branches), Places (the buckets in
-- which they are found) and Orders (how the order is made, and the variables of a table named
-- anew), then Results and Complements (answers that are kept), Connectives (what computing one
-- does), Meetings (whether two conditions hold together), Joins (many conditions joined to one),
-- Paths (walks down the branches) and Stores (what holds of a store).
pub mod Complements
pub mod Connectives
pub mod Joins
pub mod Meetings
pub mod Nodes
pub mod Orders
pub mod Paths
pub mod Places
pub mod Results
pub mod Stores
