pub mod Refusals
pub mod Results
pub mod Tests
pub mod First
pub mod Answers
