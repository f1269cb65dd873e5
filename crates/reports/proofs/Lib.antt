pub mod RanOut
