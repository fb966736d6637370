pub mod Lists
pub mod Numbers
