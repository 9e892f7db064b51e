-- The eleven worked cases (RULES 18), the order of refusals (RULES 2), and the clauses of a state in order (RULES 4).
pub mod Cases
pub mod Precedence
pub mod Clauses
