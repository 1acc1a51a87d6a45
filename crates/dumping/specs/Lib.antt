pub mod Tables
pub mod Dump
pub mod Steps
pub mod Stated
