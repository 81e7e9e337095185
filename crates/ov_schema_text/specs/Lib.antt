pub mod ShapeViews
pub mod Flaws
pub mod FaultViews
pub mod Refusals
pub mod Built
pub mod SchemaMembers
pub mod Texts
