-- What `lex` answers. Read Refusal (which answer tells which cutting), Laws (what any cutting
-- keeps) and Printed (text that is cut into what was printed). `working` is about the steps of the
-- code.
pub mod Laws
pub mod Printed
pub mod Refusal
pub mod working
