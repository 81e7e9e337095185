pub mod Walks
pub mod Compared
pub mod ElementViews
pub mod EqualTo
pub mod OnlyId
pub mod Views
