-- Laws by which the functions that add and remove are proved.
pub mod MoveLaws
pub mod ListLaws
pub mod SizeLaws
pub mod NextLaws
pub mod GapLaws
pub mod InsertLaws
pub mod UnlistLaws
pub mod ChangeLaws
