pub mod Serving
pub mod Counting
pub mod Origins
pub mod inside
