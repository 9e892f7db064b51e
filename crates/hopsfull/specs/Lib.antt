-- 12, Hops that can't rise: of hits alone.
pub mod PutBack
pub mod NoQuery
pub mod Hits
pub mod Sessions
