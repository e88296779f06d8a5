pub mod Saves
