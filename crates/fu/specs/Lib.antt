pub mod Fu
