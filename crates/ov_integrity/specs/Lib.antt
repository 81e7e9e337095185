pub mod Pruning
pub mod Finishing
pub mod Missing
