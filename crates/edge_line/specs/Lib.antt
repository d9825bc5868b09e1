-- An edge along a line of samples. To be believed: Along, Every and Edge. Run and Onward are what the code goes by.
pub mod Along
pub mod Run
pub mod Every
pub mod Onward
pub mod Edge
