-- Which configurations have one face. Read Faces; `working` is about the loop.
pub mod Faces
pub mod working
