-- Laws of the steps and of the calls.
pub mod AgeLaws
pub mod ActionLaws
pub mod PingLaws
pub mod CallLaws
pub mod FeedLaws
pub mod FeedMet
