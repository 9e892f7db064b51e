-- Laws by which the call goes: the query's refusals and its text, the results one by one and which they are, and the
-- hit's parts.
pub mod AskedLaws
pub mod FillLaws
pub mod ChosenLaws
pub mod WriteLaws
