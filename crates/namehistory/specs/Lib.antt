-- Lists of calls on an area of names: the plain list that the area stands for, what adds and removes come to, and what
-- a find tells after them; and the table of the names at the writer of updates.
pub mod Plain
pub mod History
pub mod Finding
pub mod Updates
