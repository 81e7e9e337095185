pub mod TreeCode
pub mod ValueCode
pub mod SchemaCode
pub mod ConditionCode
pub mod MutationCode
pub mod MonitorCode
