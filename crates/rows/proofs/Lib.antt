-- Lemmas of the reading of rows.
mod Until
