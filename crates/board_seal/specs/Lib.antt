pub mod SealCall
