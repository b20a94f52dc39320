-- What is proved of the variant of one configuration.
mod Alone
mod Literals
