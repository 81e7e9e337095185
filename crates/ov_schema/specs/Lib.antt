pub mod Sets
pub mod NamedViews
pub mod Built
pub mod Parts
pub mod Shapes
