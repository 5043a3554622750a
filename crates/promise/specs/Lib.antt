-- What is said of lists of calls beside the promise: of each call, and with cells enough.
pub mod Carried
pub mod InUse
