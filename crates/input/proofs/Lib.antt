-- Lemmas of what is read.
mod Joining
