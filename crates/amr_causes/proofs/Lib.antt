pub mod CauseLaws
pub mod ByteLaws
pub mod Results
