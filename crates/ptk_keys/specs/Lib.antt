pub mod KeptKeys
