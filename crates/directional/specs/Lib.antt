-- Directions, from document 01: a reader must believe the choice by angle, and the words that name a direction.
pub mod Directional
pub mod Words
