-- To believe: Smooth (document 01, The predictors); its weights stand in `smooth_weights`.
pub mod Smooth
