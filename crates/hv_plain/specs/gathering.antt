-- Which files a main file leads to. Read Headers (the built-in headers), Mentions (the headers that
-- a file mentions), SearchOrder (where a header is looked for), then Told (the bundle that the
-- search finds).
pub mod Headers
pub mod Mentions
pub mod SearchOrder
pub mod Told
