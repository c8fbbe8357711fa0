pub mod Visitor
