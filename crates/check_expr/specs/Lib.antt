pub mod Expression
pub mod Owners
pub mod Asks
pub mod Calls
pub mod Numbers
pub mod Tests
pub mod Forms
pub mod Shapes
