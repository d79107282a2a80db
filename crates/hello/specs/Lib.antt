pub mod Hello
