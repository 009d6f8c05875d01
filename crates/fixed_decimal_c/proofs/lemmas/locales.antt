pub mod NumberedRules
