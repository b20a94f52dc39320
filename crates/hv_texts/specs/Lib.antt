-- The texts and controlling lines of a file under all configurations. Read Readings (what reading a
-- part of a file comes to), then Faces (when a place has too many). `working` is about the steps of
-- the code.
pub mod Faces
pub mod Readings
pub mod working
