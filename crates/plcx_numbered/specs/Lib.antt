pub mod Agreeing
pub mod Prepared
pub mod Right
pub mod Numbers
pub mod Programs
pub mod Laws
