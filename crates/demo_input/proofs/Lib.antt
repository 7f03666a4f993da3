pub mod Growing
pub mod DemoLines
pub mod DemoCount
