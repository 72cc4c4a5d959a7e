pub mod RetimeCall
