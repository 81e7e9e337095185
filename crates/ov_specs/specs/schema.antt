pub mod SchemaTypes
pub mod SchemaShape
pub mod Schema
pub mod Fitting
pub mod Newer
pub mod SameType
