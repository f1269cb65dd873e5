pub mod Types
pub mod Reports
