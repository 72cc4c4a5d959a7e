pub mod FreshCall
