pub mod FedBlocks
