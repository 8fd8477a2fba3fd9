pub mod KeptCancellations
