pub mod YellowCall
