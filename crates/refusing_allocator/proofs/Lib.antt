mod Requests
