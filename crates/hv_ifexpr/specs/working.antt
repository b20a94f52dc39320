-- What private functions do; no exported clause cites these. Read Machine (how an expression is
-- read in one pass), then Answer (what is made of its value).
pub mod Answer
pub mod Machine
