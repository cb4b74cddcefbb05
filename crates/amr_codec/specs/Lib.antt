pub mod Forms
pub mod MassWidths
